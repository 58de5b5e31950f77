use Rattle.std.proofs.Common.{rules, ap, sym, subst, length}
use Rattle.pybuf_desc.specs.Places.{layout_at}
use Rattle.pybuf_desc.specs.Valid.{IsValid, IsPlaced}
use Rattle.example_picture.specs.Pictures.{Picture}
use Rattle.example_picture.proofs.PictureLemmas.{frame_sound, picture_more}
use Rattle.example_picture.proofs.canvas.Picture.add.Goals as goal

pub add_view-requires-clause-sound : goal.add_view-requires-clause-sound
add_view-requires-clause-sound c =
    let placed : IsPlaced c.args.desc c.args.start = search rules in
    let same = ap (λ (p : Picture). length p.levels) c.self.view_is in
    frame_sound c.placed_descriptors_stand.ensures c.described_views_have_their_shape.ensures c.valid_where_items_lie_inside.ensures c.whole_layouts_are_sound.ensures
    c.self.inside.state.exporter c.args.desc c.args.start c.self.invariant.kind placed (subst (IsValid c.args.desc c.args.start) (sym same) c.requires.valid) c.requires.frame

pub invariant_of-self-2 : goal.invariant_of-self-2
invariant_of-self-2 c =
    picture_more c.self.inside.rows c.self.inside.columns c.self.inside.channels c.self.inside.state.exporter c.add_view.new.self.exporter (layout_at c.args.desc c.args.start) c.in_ok-number.number c.self.invariant c.requires.frame c.in_ok-number.ensures.ok
