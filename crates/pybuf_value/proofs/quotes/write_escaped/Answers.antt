use Rattle.std.proofs.Common.{◌≡◌, ◌++◌, ◌+◌, arith, ap, sym, ◌∙◌, take, length, slice_index}
use Rattle.std.specs.List.{flat_map}
use Rattle.std.proofs.Math.Seq.{take-length}
use Rattle.pybuf_value.specs.Quotes.{escaped_byte}
use Rattle.pybuf_value.proofs.Escapes.{between, no_run, run_goes_on, run_is_written, written_with_run}
use Rattle.pybuf_value.proofs.quotes.write_escaped.Goals as goal
use Rattle.pybuf_value.proofs.quotes.write_escaped.Goals.{then-not-is_plain+in_ok-extend_from_slice+in_ok-push_escaped, else-not-is_plain}

pub loop-i-preserved : goal.loop-i-preserved
loop-i-preserved c =
    elim c.if-not-is_plain.branch [
      | then-not-is_plain+in_ok-extend_from_slice+in_ok-push_escaped w ↦ record {
        written = ap (λ out. out.items) w.out-is ∙ w.in_ok-push_escaped.ensures.ok
            ∙ ap (λ front. front ++ escaped_byte c.args.quote (slice_index c.args.bytes.now c.loop-i.i)) w.in_ok-extend_from_slice.ensures.items
            ∙ run_is_written c.args.quote c.loop-i.start c.loop-i.i c.args.bytes.now c.args.out.now.items c.loop-i.out.items
            c.loop-i.invariant.within c.loop-i-test.true c.loop-i.invariant.written c.loop-i.invariant.run
            ∙ ap (λ start. c.args.out.now.items ++ flat_map (escaped_byte c.args.quote) (take start c.args.bytes.now)) (sym w.start-is);
        within = omega (arith, w.start-is);
        run = no_run c.args.quote c.if-not-is_plain.start (c.loop-i.i + 1) c.args.bytes.now w.start-is;
      }
      | else-not-is_plain w ↦ record {
        written = ap (λ out. out.items) w.out-is ∙ c.loop-i.invariant.written
            ∙ ap (λ start. c.args.out.now.items ++ flat_map (escaped_byte c.args.quote) (take start c.args.bytes.now)) (sym w.start-is);
        within = omega (arith, w.start-is, c.loop-i.invariant.within);
        run = ap (λ start. flat_map (escaped_byte c.args.quote) (between start (c.loop-i.i + 1) c.args.bytes.now)) w.start-is
            ∙ run_goes_on c.args.quote c.loop-i.start c.loop-i.i c.args.bytes.now c.loop-i.invariant.within c.loop-i-test.true
            c.loop-i.invariant.run (sym c.is_plain.ensures ∙ w.if-not-is_plain.false)
            ∙ ap (λ start. between start (c.loop-i.i + 1) c.args.bytes.now) (sym w.start-is);
      }
    ]

pub returns-clause-ok : goal.returns-clause-ok
returns-clause-ok c =
    let end : c.loop-i.i ≡ length c.args.bytes.now = omega (arith, c.loop-i.auto.i-end, c.loop-i-test.false) in
    c.in_ok-extend_from_slice-2.ensures.items
    ∙ written_with_run c.args.quote c.loop-i.start (length c.args.bytes.now) c.args.bytes.now c.args.out.now.items c.loop-i.out.items
    (omega (arith, end, c.loop-i.invariant.within)) c.loop-i.invariant.written
    (ap (λ i. flat_map (escaped_byte c.args.quote) (between c.loop-i.start i c.args.bytes.now)) (sym end) ∙ c.loop-i.invariant.run
    ∙ ap (λ i. between c.loop-i.start i c.args.bytes.now) end)
    ∙ ap (λ bytes. c.args.out.now.items ++ flat_map (escaped_byte c.args.quote) bytes) (take-length c.args.bytes.now)
