-- Laws of digits and bytes, lowest first; `Laws` is that decoding undoes encoding; `Lent` is of a part of lent places.
pub mod Digits
pub mod Pair
pub mod Laws
pub mod Turns
pub mod Lent
