-- Which orders a workload has, which of them each worker makes, and that those on one document are one worker's.
pub mod Workload
pub mod Batches
pub mod Laws
