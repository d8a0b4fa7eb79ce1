-- The relations, as the code names them.
use Rattle.comparison.specs.Relation as relation
use Rattle.relations.specs.declared.Relation.{Relation}
use Rattle.relations.specs.declared.Relation.TheVariants.{Less, AtMost, Greater, AtLeast, Equal, NotEqual}

-- the relation of each name
abbrev pub relation_is : Relation → relation.Relation
relation_is Less = relation.Less
relation_is AtMost = relation.AtMost
relation_is Greater = relation.Greater
relation_is AtLeast = relation.AtLeast
relation_is Equal = relation.Equal
relation_is NotEqual = relation.NotEqual
