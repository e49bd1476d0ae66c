pub mod Popped
