pub mod TimeAcc1Vel
