-- Facts on the forms of update bodies and on the orders that they give.
pub mod FormLemmas
pub mod DocLemmas
pub mod OrderLemmas
