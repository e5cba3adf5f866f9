pub mod TimeAcc0Acc1
pub mod RestToRest
