-- How the packer chooses.
-- Interface: the claims Full (`NeverMorePlaces`) and OneFan (`UnmetHaveOneFan`); Works and Building, which the claims of roundtrip cite;
-- Spots, which pack_theory cites for the contracts of chooser, and Fanned and Met, which unpack_theory cites for those of unpacker.
-- Assumes nothing.
pub mod Building
pub mod Fanned
pub mod Full
pub mod Met
pub mod OneFan
pub mod Spots
pub mod Works
