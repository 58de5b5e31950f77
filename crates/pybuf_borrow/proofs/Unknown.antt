-- What was never given is refused.
use Rattle.std.proofs.Common.{◌≡◌, ℕ, List, false, true≢false, ap}
use Rattle.std.specs.Prelude.{Option, None, Err}
use Rattle.std.specs.Option.{ok_or}
use Rattle.pybuf_lemmas.proofs.Lists.{nothing_past_the_end}
use Rattle.pybuf_value.specs.Facts.{first_refuses}
use Rattle.pybuf_value.specs.declared.faults.Fault.TheVariants as fault
use Rattle.pybuf_value.specs.declared.snaps.Snap.{Snap}
use Rattle.pybuf_value.specs.declared.values.Scalar.TheVariants as scalar
use Rattle.pybuf_value.specs.declared.values.Value.TheVariants as value
use Rattle.pybuf_value.specs.Snaps.{snap_of, content_of, like_in}
use Rattle.pybuf_command.specs.declared.kinds.Subject.{Subject}
use Rattle.pybuf_command.specs.declared.kinds.Subject.TheVariants as subject
use Rattle.pybuf_state.specs.Exporter.{Exporter, View, Iterator, has_subject, view_at, live_layout, iterator_at}
use Rattle.pybuf_borrow.specs.Arguments.{argument_of}
use Rattle.pybuf_borrow.specs.Writable.{asked_to_write}
use Rattle.pybuf_borrow.specs.Laws.{UnknownArgumentsAreRefused}

no_argument : (pairs : List (ℕ × Snap)) (h : ℕ) → snap_of pairs h ≡ None → argument_of pairs (value.One (scalar.Handle h)) ≡ Err fault.UnknownName
no_argument pairs h none = first_refuses (like_in pairs (value.One (scalar.Handle h))) _ fault.UnknownName (ap content_of none)

no_subject : (e : Exporter) (s : Subject) → has_subject e s ≡ false → asked_to_write e s ≡ Err fault.UnknownName
no_subject e subject.Own none = absurd (true≢false none)
no_subject e (subject.View k) none =
    let gone : view_at e k ≡ Err fault.UnknownName = ap (λ (o : Option View). ok_or o fault.UnknownName) (nothing_past_the_end e.views k none) in
    first_refuses (live_layout e k) _ fault.UnknownName (first_refuses (view_at e k) _ fault.UnknownName gone)
no_subject e (subject.Iter k) none = first_refuses (iterator_at e k) _ fault.UnknownName (ap (λ (o : Option Iterator). ok_or o fault.UnknownName) (nothing_past_the_end e.iterators k none))

pub unknown_refused : UnknownArgumentsAreRefused
unknown_refused = record {
  bytes = no_argument;
  text = λ pairs h none. first_refuses (argument_of pairs (value.One (scalar.Handle h))) _ fault.UnknownName (no_argument pairs h none);
  ascii = λ pairs h none. first_refuses (argument_of pairs (value.One (scalar.Handle h))) _ fault.UnknownName (no_argument pairs h none);
  subjects = no_subject;
}
