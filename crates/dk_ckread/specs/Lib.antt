pub mod Names
pub mod ParquetExample
pub mod ParquetFiles
pub mod ParquetRows
pub mod ReadLaws
pub mod Reading
pub mod SidecarExample
