use Rattle.std.proofs.Common.{◌≡◌, ◌++◌, ◌≤◌, length, drop}
use Rattle.bstr.specs.Text.{MatchList, replaced_at}
use Rattle.pybuf_shaping.proofs.replacing.push_replaced.Given as goal

abbrev pub invariant-loop-place : goal.invariant-loop-place
invariant-loop-place l = record {
  whole : l.list.items ++ replaced_at l.bytes l.width l.new l.last (drop l.place-index l.places) ≡ l.initial.list.items ++ replaced_at l.bytes l.width l.new 0 l.places;
  fits : MatchList l.bytes l.width l.last (drop l.place-index l.places);
  inside : l.last ≤ length l.bytes;
}
