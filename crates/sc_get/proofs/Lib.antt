-- Facts on gets.
pub mod GotLemmas
pub mod ManyLemmas
