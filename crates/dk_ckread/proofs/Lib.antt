pub mod Answers
pub mod FilesMean
pub mod ForbiddenParquet
pub mod ParquetExample
pub mod ReadMeans
pub mod SidecarExample
