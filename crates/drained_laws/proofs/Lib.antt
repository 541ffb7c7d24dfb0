mod Firsts
mod Drained
