pub mod TimeAcc0Vel
