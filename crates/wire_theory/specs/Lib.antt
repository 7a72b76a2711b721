-- Bits, codes and fields.
-- Interface: Shape (the claims of roundtrip, the contracts of wire), Header, Buffer (the contracts of wire and packer).
-- Assumes nothing.
pub mod Buffer
pub mod Header
pub mod Later
pub mod Shape
