-- The laws of `gezdunar`.
pub mod NumbersName
pub mod Places
pub mod SizeLaws
pub mod Asked
