-- What the proofs share of options, numbers and ranges, of clap's walk over the words, what the options' forms and order mean, and examples.
mod ArgumentExamples
pub mod DigitLemmas
mod FormLemmas
pub mod FoundLemmas
mod OrderLemmas
pub mod RangeLemmas
pub mod RuleLemmas
mod SameLemmas
pub mod StepLemmas
pub mod TurnLemmas
pub mod WalkLemmas
pub mod WordLemmas
pub mod Words
