pub mod TimeAcc0Acc1Vel
