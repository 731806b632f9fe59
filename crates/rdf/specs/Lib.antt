pub mod Refusals
pub mod Terms
pub mod Variables
pub mod Triples
pub mod Rows
pub mod RowLaws
pub mod RdfOrders
