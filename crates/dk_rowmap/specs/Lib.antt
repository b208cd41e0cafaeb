pub mod Holds
pub mod RowFaults
pub mod RowsReading
pub mod Parts
pub mod ActionRows
pub mod WrittenRows
