-- The contracts
pub mod Promises
-- The theorems that answer the demands
pub mod Demand1
pub mod Demand2
pub mod Demand3
pub mod Witness
