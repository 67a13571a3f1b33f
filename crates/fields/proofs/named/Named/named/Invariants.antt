-- No value before the index is written so.
use Rattle.std.proofs.Common.{◌≡◌, drop}
use Rattle.fields.specs.Named.{is_named, value_of}
use Rattle.fields.proofs.named.Named.named.Given as goal

abbrev pub invariant-loop-value : goal.invariant-loop-value
invariant-loop-value g l = record {
  is_there : is_named g.Self.Named.text (drop l.value-index g.Self.Named.values) l.bytes
      ≡ is_named g.Self.Named.text g.Self.Named.values l.bytes;
  value : (other : g.row.Self.Denot)
      → value_of g.Self.Named.text (drop l.value-index g.Self.Named.values) other l.bytes
      ≡ value_of g.Self.Named.text g.Self.Named.values other l.bytes;
}
