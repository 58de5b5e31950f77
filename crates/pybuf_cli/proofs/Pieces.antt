-- A text that is due and is put a piece at a time. A front of it was put or waits, and the rest is still to
-- come.
use Rattle.std.proofs.Common.{◌≡◌, ℕ, List, [], ◌++◌, Option, refl, sym, ◌∙◌, subst}
use Rattle.std.proofs.lemmas.List.{append_assoc, append-nil}
use Rattle.pybuf_cli.specs.Devices.{Put, PutPrefix, Sends}
use Rattle.pybuf_cli.proofs.Sending.{sends_more, sends_put, sends_front, sends_then_front}

pub record IsWritten (due rest : List ℕ) (old : Option (List ℕ)) (waiting : List ℕ) (held : Option (List ℕ)) : Type 0 where
  pub text : List ℕ
  pub whole : due ≡ text ++ rest
  pub sends : Sends old text waiting held

-- One more piece was put or waits.
pub writes_next : (due piece rest : List ℕ) (old mid new : Option (List ℕ)) (waiting left : List ℕ) →
    IsWritten due (piece ++ rest) old waiting mid → Sends mid (waiting ++ piece) left new → IsWritten due rest old left new
writes_next due piece rest old mid new waiting left so sent = record {
  text = so.text ++ piece;
  whole = so.whole ∙ sym (append_assoc so.text piece rest);
  sends = sends_more old mid new so.text waiting piece (waiting ++ piece) sent.sent left so.sends refl sent.whole sent.put;
}

-- No more piece is written, and the front of what waits was put.
pub stops_before : (due rest : List ℕ) (old mid new : Option (List ℕ)) (waiting lent : List ℕ) → IsWritten due rest old waiting mid →
    lent ≡ waiting → PutPrefix mid lent new → PutPrefix old due new
stops_before due rest old mid new waiting lent so same front =
    sends_front old mid new so.text waiting lent rest due so.sends so.whole same front

-- The front of what waits and of one more piece was put.
pub stops_behind : (due piece rest : List ℕ) (old mid new : Option (List ℕ)) (waiting : List ℕ) → IsWritten due (piece ++ rest) old waiting mid →
    PutPrefix mid (waiting ++ piece) new → PutPrefix old due new
stops_behind due piece rest old mid new waiting so front =
    sends_then_front old mid new so.text waiting piece rest due so.sends (so.whole ∙ sym (append_assoc so.text piece rest)) front

-- Nothing is still to come, and what waits was put.
pub ends_put : (due : List ℕ) (old mid new : Option (List ℕ)) (waiting lent : List ℕ) → IsWritten due [] old waiting mid → lent ≡ waiting →
    Put mid lent new → Put old due new
ends_put due old mid new waiting lent so same put =
    subst (λ (x : List ℕ). Put old x new) (sym (so.whole ∙ append-nil so.text)) (sends_put old mid new so.text waiting lent so.sends same put)
