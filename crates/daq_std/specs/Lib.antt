-- What files that are read and written in blocks tell, and the paths of names.
pub mod SystemCalls
pub mod Blocks
pub mod BlockTables
pub mod Paths
pub mod InBlocks
pub mod GivenWords
