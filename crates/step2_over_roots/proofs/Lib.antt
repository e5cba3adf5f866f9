-- The loop over the roots.
mod Roots
