-- What is proved of the contracts: each is one equation with its definition, they compose, and they determine all.
pub mod ContractLaws
pub mod ComposedLaws
pub mod Composed
pub mod Determined
