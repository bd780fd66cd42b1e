pub mod FlagOperations
