-- Equal views of single bytes have the same hash.
use Rattle.std.proofs.Common.{◌≡◌, ℕ, ◌*◌, ◌<◌, List, [], ◌∷◌, length, drop, Bool, true, false, ap, sym, ◌∙◌, arith}
use Rattle.std.specs.Prelude.{not, Result, Ok, Err}
use Rattle.std.specs.List.{All}
use Rattle.std.proofs.lemmas.List.Elements.{All-nil, All-append, All-take, All-drop}
use Rattle.pybuf_equality.specs.Facts.{one_byte}
use Rattle.pybuf_value.specs.declared.faults.Fault.{Fault}
use Rattle.pybuf_value.specs.declared.faults.Fault.TheVariants as fault
use Rattle.pybuf_value.specs.Refusing.{◌>>=◌, unless}
use Rattle.pybuf_desc.specs.Layouts.{Layout}
use Rattle.pybuf_desc.specs.Items.{bytes_at, bytes_of_items, content_of_layout}
use Rattle.pybuf_command.specs.declared.commands.LocalReply.{LocalReply}
use Rattle.pybuf_command.specs.declared.commands.LocalReply.TheVariants as reply
use Rattle.pybuf_memoryview.specs.Laws.{ContentsAreWhole}
use Rattle.pybuf_memoryview.specs.Snaps.{snap_of_layout}
use Rattle.pybuf_equality.specs.Laws.{IsByteFormat, HasByteItems, EqualByteViewsHoldTheSameBytes}
use Rattle.pybuf_state.specs.Exporter.{Exporter, live_layout}
use Rattle.pybuf_state.specs.Laws.{IsSoundLayout, LiveLayoutsAreSound}
use Rattle.pybuf_verbs_compare.specs.Hash.{hash_of_view}
use Rattle.pybuf_verbs_compare.specs.Laws.{EqualViewsHashAlike}

-- ---- what `hash` replies

abbrev after : Exporter → Layout → Bool → Result (Exporter × LocalReply) Fault
after e layout writable = unless writable fault.Value >>= λ _. Ok (e, reply.Bytes (content_of_layout e.bytes layout))

abbrev bytes_in : LocalReply → List ℕ
bytes_in (reply.Bytes bytes) = bytes
bytes_in _ = []

abbrev bytes_replied : Result (Exporter × LocalReply) Fault → List ℕ
bytes_replied (Ok after) = bytes_in after.1
bytes_replied (Err f) = []

hashed_by : (e : Exporter) (layout : Layout) (writable : Bool) (bytes : List ℕ) → after e layout writable ≡ Ok (e, reply.Bytes bytes) → content_of_layout e.bytes layout ≡ bytes
hashed_by e layout true bytes replied = absurd (cc)
hashed_by e layout false bytes replied = ap bytes_replied replied

hashed : (e : Exporter) (k : ℕ) (layout : Layout) (bytes : List ℕ) → live_layout e k ≡ Ok layout → hash_of_view e k ≡ Ok (e, reply.Bytes bytes) → content_of_layout e.bytes layout ≡ bytes
hashed e k layout bytes found replied =
    hashed_by e layout (not layout.readonly) bytes (ap (λ (r : Result Layout Fault). r >>= λ l. after e l (not l.readonly)) (sym found) ∙ replied)

-- ---- items of one byte

items_small : (bytes : List ℕ) (size : ℕ) (starts : List ℕ) → All (λ b. b < 256) bytes → All (λ b. b < 256) (bytes_of_items bytes size starts)
items_small bytes size [] small = All-nil (λ b. b < 256)
items_small bytes size (start ∷ starts) small =
    All-append (λ b. b < 256) (bytes_at bytes size start) (bytes_of_items bytes size starts)
    (All-take (λ b. b < 256) size (drop start bytes) (All-drop (λ b. b < 256) start bytes small)) (items_small bytes size starts small)

byte_items : ContentsAreWhole → (e : Exporter) (layout : Layout) → IsSoundLayout e layout → All (λ b. b < 256) e.bytes → IsByteFormat layout.format → HasByteItems (snap_of_layout e.bytes layout false)
byte_items whole e layout sound bytes format =
    let one = one_byte layout.format layout.itemsize format sound.formed.sized in
    record {
      format = format;
      size = one;
      filled = whole e.bytes layout sound.inside ∙ ap (λ n. n * length layout.starts) one ∙ (let same : 1 * length layout.starts ≡ length layout.starts = omega arith in same) ∙ sound.formed.counted;
      bytes = items_small e.bytes layout.itemsize layout.starts bytes;
    }

pub hashed_alike : LiveLayoutsAreSound → ContentsAreWhole → EqualByteViewsHoldTheSameBytes → EqualViewsHashAlike
hashed_alike live whole same e other k j layout other_layout bytes other_bytes sound other_sound small other_small found other_found format other_format equal replied other_replied =
    sym (hashed e k layout bytes found replied)
    ∙ same (snap_of_layout e.bytes layout false) (snap_of_layout other.bytes other_layout false)
    (byte_items whole e layout (live e k layout sound found) small format)
    (byte_items whole other other_layout (live other j other_layout other_sound other_found) other_small other_format) equal
    ∙ hashed other j other_layout other_bytes other_found other_replied
