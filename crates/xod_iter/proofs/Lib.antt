mod Going
mod Linking
mod Such
