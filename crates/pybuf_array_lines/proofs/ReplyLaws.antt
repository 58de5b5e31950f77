-- What an array replies is one line, since it is written as the replies of other subjects are.
use Rattle.std.proofs.Common.{◌≡◌, List, [], ◌∷◌, ◌++◌, codes, map, refl, ap, subst, ℤ}
use Rattle.std.specs.Fmt.{signed_decimal}
use Rattle.std.specs.List.{flat_map}
use Rattle.pybuf_value.specs.declared.values.Scalar.TheVariants as scalar
use Rattle.pybuf_value.specs.declared.values.Item.{Item}
use Rattle.pybuf_value.specs.declared.values.Item.TheVariants as item
use Rattle.pybuf_value.specs.Spelling.{handle_text, item_text, next_part_text, list_text}
use Rattle.pybuf_command.specs.declared.worlds.Reply.TheVariants as reply
use Rattle.pybuf_array.specs.declared.operations.ArrayReply.TheVariants as array
use Rattle.pybuf_line.specs.Laws.{IsOneLine, RepliesAreSingle}
use Rattle.pybuf_array_lines.specs.Laws.{ArrayRepliesAreSingle}

-- a number among items
abbrev item_of : ℤ → Item
item_of n = item.One (scalar.Int n)

next_parts : (numbers : List ℤ) → flat_map (next_part_text (item_text handle_text)) (map item_of numbers) ≡ flat_map (next_part_text signed_decimal) numbers
next_parts [] = refl
next_parts (n ∷ more) = ap (λ rest. next_part_text signed_decimal n ++ rest) (next_parts more)

as_items : (numbers : List ℤ) → list_text (item_text handle_text) (map item_of numbers) ≡ list_text signed_decimal numbers
as_items [] = refl
as_items (n ∷ more) = ap (λ rest. codes "[" ++ signed_decimal n ++ rest ++ codes "]") (next_parts more)

pub replies_single : RepliesAreSingle handle_text → ArrayRepliesAreSingle
replies_single single array.Ok = refl
replies_single single (array.Number n) = single (reply.Item (item_of n)) (λ text is. absurd (cc))
replies_single single (array.Numbers numbers) =
    subst IsOneLine (as_items numbers) (single (reply.Items [] (map item_of numbers)) (λ text is. absurd (cc)))
replies_single single (array.Bytes bytes) = single (reply.Bytes bytes) (λ text is. absurd (cc))
replies_single single (array.View view) = single (reply.Handle view) (λ text is. absurd (cc))
replies_single single (array.Refused f) = single (reply.Refused f) (λ text is. absurd (cc))
