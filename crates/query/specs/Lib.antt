-- To be believed by a reader of the promises: what a card says, the table that Build writes, what Build and Forecast answer, demand 3,
-- the score, and the slots of shared cards.
pub mod Form
pub mod Card
pub mod Reading
pub mod Score
pub mod Whole
pub mod Outcomes
pub mod Formulas
pub mod Holds
pub mod CardPromises
pub mod BuildOrder
pub mod Promises
pub mod CountPromises
pub mod ScorePromises
pub mod SharedPromises
pub mod AnyTests
pub mod Bench
