-- What may be forgotten of an exporter: all that a released view keeps, and where an exhausted iterator stands.
use Rattle.std.specs.Prelude.{ℕ, Bool, true, false, [], ◌∷◌, map, codes, if◌then◌else◌}
use Rattle.pybuf_value.specs.declared.snaps.Snap.{Snap}
use Rattle.pybuf_value.specs.declared.snaps.SnapKind.{SnapKind}
use Rattle.pybuf_value.specs.declared.snaps.SnapKind.TheVariants as kind
use Rattle.pybuf_desc.specs.Layouts.{Layout, bytes_layout}
use Rattle.pybuf_command.specs.declared.kinds.Subject.{Subject}
use Rattle.pybuf_command.specs.declared.kinds.Subject.TheVariants as subject
use Rattle.pybuf_command.specs.declared.loans.Loan.{Loan}
use Rattle.pybuf_command.specs.declared.loans.Loan.TheVariants as loan
use Rattle.pybuf_state.specs.Exporter.{Exporter, View, Iterator}

-- the layout of no bytes, which can only be read
abbrev pub no_layout : Layout
no_layout = bytes_layout 0 true

-- a released view of no bytes, made at length 0
abbrev pub no_view : View
no_view = record { made_at = 0; layout = no_layout; released = true }

-- Every released view becomes this one (`forgetting_leaves_nothing`). An unreleased view stays.
abbrev pub forgotten_view : View → View
forgotten_view v = record {
  made_at = if v.released then 0 else v.made_at;
  layout = if v.released then no_layout else v.layout;
  released = v.released;
}

-- The subject of an exhausted iterator. It only matters whether that is the exporter itself, so the number is gone.
abbrev pub forgotten_subject : Subject → Subject
forgotten_subject subject.Own = subject.Own
forgotten_subject (subject.View k) = subject.View 0
forgotten_subject (subject.Iter k) = subject.Iter 0

-- An exhausted iterator has no position and no number of its view. Any other iterator stays.
abbrev pub forgotten_iterator : Iterator → Iterator
forgotten_iterator it = record {
  subject = if it.exhausted then forgotten_subject it.subject else it.subject;
  position = if it.exhausted then 0 else it.position;
  exhausted = it.exhausted;
}

-- The exporter without what is forgotten. Views and iterators keep their numbers.
abbrev pub forgotten : Exporter → Exporter
forgotten e = record { kind = e.kind; bytes = e.bytes; views = map forgotten_view e.views; iterators = map forgotten_iterator e.iterators }

-- ---- what is lent of a released view

-- whether something of this kind is a released view
abbrev pub is_released_view : SnapKind → Bool → Bool
is_released_view kind.View released = released
is_released_view _ released = false

-- The snap of a released view becomes that of the one released view without bytes. Any other snap stays.
abbrev pub forgotten_snap : Snap → Snap
forgotten_snap s = record {
  kind = s.kind;
  format = if is_released_view s.kind s.released then codes "B" else s.format;
  itemsize = if is_released_view s.kind s.released then 1 else s.itemsize;
  shape = if is_released_view s.kind s.released then 0 ∷ [] else s.shape;
  content = if is_released_view s.kind s.released then [] else s.content;
  contiguous = if is_released_view s.kind s.released then true else s.contiguous;
  released = s.released;
}

-- what another exporter lends, where that has forgotten its released views
abbrev pub forgotten_loan : Loan → Loan
forgotten_loan (loan.Other snap) = loan.Other (forgotten_snap snap)
forgotten_loan l = l

abbrev pub forgotten_pair : ℕ × Loan → ℕ × Loan
forgotten_pair pair = (pair.0, forgotten_loan pair.1)
