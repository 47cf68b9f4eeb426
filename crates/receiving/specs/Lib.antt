pub mod Judge
pub mod AtRecord
pub mod Maps
