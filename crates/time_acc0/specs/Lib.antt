pub mod TimeAcc0
