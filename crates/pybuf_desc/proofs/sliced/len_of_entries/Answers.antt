use Rattle.std.proofs.Common.{◌*◌, ◌≡◌, ◌<◌, arith, ap, sym, ◌∙◌, mul_comm, ℕ}
use Rattle.std.proofs.Math.Nat.{mul-one}
use Rattle.pybuf_desc.proofs.SliceFacts.{block_size}
use Rattle.pybuf_desc.proofs.sliced.len_of_entries.Goals as goal

-- if there are as many entries as bytes, each entry is one byte
one_each : (shape len entry : ℕ) → shape ≡ len → len ≡ shape * entry → 0 < shape → entry ≡ 1
one_each shape len entry same e some =
    sym (block_size shape entry len e some) ∙ block_size shape 1 len (sym same ∙ sym (mul-one shape)) some

pub returns-then-shape-len : goal.returns-then-shape-len
returns-then-shape-len c = λ entry e.
    let one : entry ≡ 1 = one_each c.args.shape c.args.len entry c.if-shape-len.true e (omega arith) in
    sym (mul-one c.args.count) ∙ ap (λ (n : ℕ). c.args.count * n) (sym one)

pub returns : goal.returns
returns c = λ entry e.
    ap (λ (n : ℕ). n * c.args.count) (block_size c.args.shape entry c.args.len e (omega arith)) ∙ mul_comm entry c.args.count
