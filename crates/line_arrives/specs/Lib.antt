pub mod LineArrives
