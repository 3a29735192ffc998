-- Facts on the cores of a bucket and on searchers.
pub mod FindLemmas
pub mod CoreLemmas
pub mod ChangedAtLemmas
pub mod ExchangeLemmas
pub mod ReplicasLemmas
pub mod StandingLemmas
