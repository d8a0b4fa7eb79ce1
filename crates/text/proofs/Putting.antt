-- Laws of putting: texts that are put one after the other are their concatenation, put whole; and room for the whole is room for each part.
-- Assumes nothing.
use Rattle.std.proofs.Common.{List, [], ◌++◌, ℕ, ◌+◌, ◌-◌, ◌≡◌, refl, sym, ap, ap₂, ◌∙◌, append_assoc, arith, length, length-append, take, drop}
use Rattle.std.proofs.lemmas.List.Edits.{sets, sets-eq}
use borrow.Rule.Slice.PartMut.{put_mid, Post-is}
use Rattle.answer.proofs.Lent.{sets_append}
use Rattle.text.specs.Putting.{Fits, HasRoom, Adds}
use Rattle.text.specs.declared.Writer.{Writer}

-- what a copy to a part of the bytes leaves is the text, stored in them
pub copied : (out text : List ℕ) (place : ℕ) {part : List ℕ} → part ≡ text → Fits out place text
    → put_mid place (place + length text - place) out part ≡ sets out place text
copied out text place same room =
    let end = place + length text in
    ap (λ (part : List ℕ). put_mid place (end - place) out part) same
    ∙ ap (λ (rest : List ℕ). take place out ++ (text ++ rest)) (Post-is place end out (omega arith))
    ∙ sym (append_assoc (take place out) text (drop end out))
    ∙ sym (sets-eq text out place room)

-- room for a text is room for its beginning
pub begins : (out : List ℕ) (place : ℕ) (xs ys : List ℕ) → Fits out place (xs ++ ys) → Fits out place xs
begins out place xs ys room = omega (arith, room, length-append xs ys)

pub nothing : {w : Writer} → Adds w [] w
nothing = record { bytes = refl; size = refl; after = omega arith; lent = refl }

-- the same text, said in another way
pub same_text : {w w' : Writer} {xs ys : List ℕ} → xs ≡ ys → Adds w xs w' → Adds w ys w'
same_text {w} e a = record {
  bytes = a.bytes ∙ ap (λ (text : List ℕ). sets w.bytes.now w.end text) e;
  size = a.size;
  after = a.after ∙ ap (λ (text : List ℕ). w.end + length text) e;
  lent = a.lent;
}

module _ {w w₁ : Writer} {xs : List ℕ} (first : Adds w xs w₁) where
  -- one after the other
  pub then : {ys : List ℕ} {w₂ : Writer} → Adds w₁ ys w₂ → Adds w (xs ++ ys) w₂
  then {ys} {w₂} second = record {
    bytes = second.bytes
        ∙ ap₂ (λ (l : List ℕ) (i : ℕ). sets l i ys) first.bytes first.after
        ∙ sym (sets_append w.bytes.now w.end xs ys);
    size = second.size ∙ first.size;
    after = omega (arith, first.after, second.after, length-append xs ys);
    lent = second.lent ∙ first.lent;
  }

  -- room that is left for a text after another
  pub left : (ys : List ℕ) → HasRoom w (xs ++ ys) → HasRoom w₁ ys
  left ys room = omega (arith, room, first.after, first.size, length-append xs ys)
