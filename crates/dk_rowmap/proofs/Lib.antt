pub mod SoundSchemas
pub mod RowSteps
pub mod FieldOrders
pub mod HeldFields
pub mod HeldKinds
pub mod RowsBack
