use Rattle.std.proofs.Common.{◌≡◌, refl, ap, sym, ◌∙◌, subst, arith, true, false, true≢false}
use Rattle.pybuf_desc.specs.Valid.{IsValid}
use Rattle.pybuf_desc.proofs.Products.{All-from_no_zero}
use Rattle.pybuf_desc.proofs.Validity.{valid_without_items, valid_with_items, len_of_valid, raw_descriptor}
use Rattle.pybuf_desc.proofs.descriptor.BufferDescriptor.validate.Goals as goal

pub returns-then-has_zero-clause-valid : goal.returns-then-has_zero-clause-valid
returns-then-has_zero-clause-valid c = (
  λ _. subst (λ d. IsValid d c.args.start c.args.room) (ap (λ dims. raw_descriptor c.self.inside.len c.self.inside.readonly c.self.inside.itemsize c.self.inside.format dims) c.as_slice-dims.ensures ∙ c.self.view_is)
      (valid_without_items (raw_descriptor c.self.inside.len c.self.inside.readonly c.self.inside.itemsize c.self.inside.format c.as_slice-dims.result.now) c.args.start c.args.room
      (record {
        some_size = grind arith;
        size_fits = grind arith;
        few_dimensions = grind arith;
        strides = c.if-not-has_strides.ensures.0 refl;
        suboffsets = c.if-not-is_direct.ensures.0 refl;
        later_entries = c.if-not-has_later_entries.ensures.0 refl;
        extent_fits = c.in-Some.ensures.0;
      })
      (c.if-has_zero.ensures.0 refl) c.if-self-ne0.false),
  λ _. refl,
)

pub returns-then-self-extent-clause-valid : goal.returns-then-self-extent-clause-valid
returns-then-self-extent-clause-valid c = (
  λ (wrong : false ≡ true). absurd (true≢false (sym wrong)),
  λ valid.
      let here : IsValid (raw_descriptor c.self.inside.len c.self.inside.readonly c.self.inside.itemsize c.self.inside.format c.as_slice-dims.result.now) c.args.start c.args.room = subst (λ d. IsValid d c.args.start c.args.room) (sym (ap (λ dims. raw_descriptor c.self.inside.len c.self.inside.readonly c.self.inside.itemsize c.self.inside.format dims) c.as_slice-dims.ensures ∙ c.self.view_is)) valid in
      absurd (c.if-self-extent.true (len_of_valid (raw_descriptor c.self.inside.len c.self.inside.readonly c.self.inside.itemsize c.self.inside.format c.as_slice-dims.result.now) c.args.start c.args.room here
      (All-from_no_zero c.as_slice-dims.result.now (λ zero. true≢false (sym (c.if-has_zero.ensures.1 zero)))) ∙ sym c.in-Some.ensures.1)),
)

pub returns-else-not-are_inside-clause-valid : goal.returns-else-not-are_inside-clause-valid
returns-else-not-are_inside-clause-valid c = (
  λ _. subst (λ d. IsValid d c.args.start c.args.room) (ap (λ dims. raw_descriptor c.self.inside.len c.self.inside.readonly c.self.inside.itemsize c.self.inside.format dims) c.as_slice-dims.ensures ∙ c.self.view_is)
      (valid_with_items (raw_descriptor c.self.inside.len c.self.inside.readonly c.self.inside.itemsize c.self.inside.format c.as_slice-dims.result.now) c.args.start c.args.room
      (record {
        some_size = grind arith;
        size_fits = grind arith;
        few_dimensions = grind arith;
        strides = c.if-not-has_strides.ensures.0 refl;
        suboffsets = c.if-not-is_direct.ensures.0 refl;
        later_entries = c.if-not-has_later_entries.ensures.0 refl;
        extent_fits = c.in-Some.ensures.0;
      })
      (All-from_no_zero c.as_slice-dims.result.now (λ zero. true≢false (sym (c.if-has_zero.ensures.1 zero))))
      (c.if-self-extent.false ∙ c.in-Some.ensures.1) (c.if-not-are_inside.ensures.0 refl)),
  λ _. refl,
)
