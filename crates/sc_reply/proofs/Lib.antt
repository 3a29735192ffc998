-- Facts on the texts of replies.
pub mod TextLemmas
pub mod FloatLemmas
pub mod PutLemmas
