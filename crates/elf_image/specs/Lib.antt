-- Definitions of images, and of the ELF files that they are read from and written to.
pub mod ReadElf
pub mod Images
pub mod WrittenElf
