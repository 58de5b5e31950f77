use Rattle.std.proofs.Common.{refl, ap, sym, ◌∙◌}
use Rattle.pybuf_borrow.specs.Writable.{lent_bytes}
use Rattle.pybuf_borrow.proofs.Held.{written_all, written_view}
use Rattle.pybuf_borrow.proofs.memory.ArgMemoryBuffer.borrow_buf_mut.Goals as goal

pub returns-in-Own : goal.returns-in-Own
returns-in-Own c =
    let borrow = c.args.self.now in (
      (refl, λ w. written_all borrow.state borrow.subject w _ borrow.writable c.in-Own.is),
      record { writes_back = tt; value = c.bytes_mut.ensures.value ∙ ap (lent_bytes borrow.state.now.exporter) (sym c.in-Own.is) },
    )

pub returns-in-View : goal.returns-in-View
returns-in-View c =
    let borrow = c.args.self.now in (
      (refl, λ w. written_view borrow.state borrow.subject c.in-View.view w _ borrow.writable c.in-View.is),
      record { writes_back = tt; value = c.contiguous_bytes_mut.ensures.value ∙ ap (lent_bytes borrow.state.now.exporter) (sym c.in-View.is) },
    )
