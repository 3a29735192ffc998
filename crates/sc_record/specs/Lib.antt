-- How a document and a write are made and kept, the lengths of ids, the names of cores, orders and the changes that they ask for, terms, versions, and writes by their ids.
pub mod DocParts
pub mod Documents
pub mod Ids
pub mod Names
pub mod Orders
pub mod TermRuns
pub mod TermsStates
pub mod Terms
pub mod Versions
pub mod WriteRuns
pub mod Writes
