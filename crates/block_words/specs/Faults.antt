-- The fault of a block word where the store refuses.
use Rattle.journal.specs.declared.store.StoreFault.{StoreFault}
use Rattle.journal.specs.declared.store.StoreFault.TheVariants.{Device as DeviceRefuses, Closed as IsClosed}
use Rattle.block_words.specs.declared.buffered_blocks.BlockFault.{BlockFault}
use Rattle.block_words.specs.declared.buffered_blocks.BlockFault.TheVariants.{Device, Closed}

abbrev pub of_store : StoreFault → BlockFault
of_store DeviceRefuses = Device
of_store IsClosed = Closed
