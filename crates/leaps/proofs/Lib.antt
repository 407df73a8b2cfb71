-- A walk from one release or finish to the next.
pub mod Entries
pub mod Held
pub mod Firsts
pub mod Releasing
pub mod Land
pub mod Turns
pub mod Leaping
