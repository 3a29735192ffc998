-- Facts on closed journals, lowest first.
pub mod SameLemmas
pub mod PrefixLemmas
pub mod ChangeLemmas
pub mod QuietLemmas
pub mod SettleLemmas
pub mod CanLemmas
pub mod ClosedLemmas
pub mod LongestLemmas
pub mod AnswerLemmas
pub mod CoreLemmas
pub mod BoardOfLemmas
pub mod RoomLemmas
