-- Facts on what is seen of journals, lowest first.
pub mod BoardLemmas
pub mod ExtendsLemmas
pub mod GoesOnLemmas
pub mod RoundLemmas
pub mod BatchLemmas
