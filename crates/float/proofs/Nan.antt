-- An operation on a NaN gives NaN, on its right as on its left. Assumes nothing.
use mathlib.Core.Path.{◌≡◌, refl}
use lib.Ieee.{Float, nan, inf, fin, add, sub, mul, div, neg}
use Rattle.float.specs.Ops.{◌⊕◌, ◌⊖◌, ◌⊗◌, ◌⊘◌}

pub nan-add : (x : Float) → nan ⊕ x ≡ nan
unfolding add
nan-add x = refl

pub add-nan : (x : Float) → x ⊕ nan ≡ nan
unfolding add
add-nan nan = refl
add-nan (inf s) = refl
add-nan (fin s m e) = refl

pub nan-sub : (x : Float) → nan ⊖ x ≡ nan
unfolding sub
nan-sub x = nan-add (neg x)

pub sub-nan : (x : Float) → x ⊖ nan ≡ nan
unfolding sub neg
sub-nan x = add-nan x

pub nan-mul : (x : Float) → nan ⊗ x ≡ nan
unfolding mul
nan-mul x = refl

pub mul-nan : (x : Float) → x ⊗ nan ≡ nan
unfolding mul
mul-nan nan = refl
mul-nan (inf s) = refl
mul-nan (fin s m e) = refl

pub nan-div : (x : Float) → nan ⊘ x ≡ nan
unfolding div
nan-div x = refl

pub div-nan : (x : Float) → x ⊘ nan ≡ nan
unfolding div
div-nan nan = refl
div-nan (inf s) = refl
div-nan (fin s m e) = refl

pub neg-nan : neg nan ≡ nan
unfolding neg
neg-nan = refl
