-- The bytes that are kept, however they are kept.
use Rattle.std.specs.Prelude.{ℕ, List}
use Rattle.nats_outbuf.specs.declared.store.Store.{Store}
use Rattle.nats_outbuf.specs.declared.store.Store.TheVariants.{Growing, Shared}

abbrev pub store_bytes : Store → List ℕ
store_bytes (Growing bytes) = bytes.items
store_bytes (Shared bytes) = bytes
