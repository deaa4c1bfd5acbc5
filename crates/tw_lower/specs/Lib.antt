pub mod Lowering
pub mod Operands
pub mod Simulation
pub mod StateBits
pub mod NameWires
pub mod FrameWires
