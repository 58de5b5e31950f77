-- The lines of entries, line by line.
use Rattle.std.proofs.Common.{◌≡◌, ℕ, suc, ◌+◌, ◌<◌, List, [], ◌∷◌, ◌++◌, take, drop, length, get_or, Option, sym, ◌∙◌, ap, subst, arith}
use Rattle.std.specs.List.{flat_map}
use Rattle.std.proofs.Math.Seq.{take-suc}
use Rattle.std.proofs.lemmas.Grind.{flat_map-append}
use Rattle.std.proofs.lemmas.List.{append-nil, take-append-drop}
use Rattle.pybuf_share.specs.declared.entries.Entry.{Entry}
use Rattle.pybuf_state.specs.Exporter.{Exporter}
use Rattle.pybuf_histories.specs.Entries.{entry_line, last_lines, shared_text}
use Rattle.pybuf_cli.specs.Devices.{Put, PutPrefix, Sends}
use Rattle.pybuf_cli.proofs.Sending.{sends_more, sends_put, sends_then_put, sends_front, sends_then_front}

shown_next : (entries : List Entry) (k : ℕ) (e : Entry) → k < length entries → e ≡ get_or entries k e →
    flat_map entry_line (take (k + 1) entries) ≡ flat_map entry_line (take k entries) ++ entry_line e
shown_next entries k e within read =
    let one_more : k + 1 ≡ suc k = omega arith in
    ap (λ n. flat_map entry_line (take n entries)) one_more
    ∙ (ap (flat_map entry_line) (take-suc entries k e within)
    ∙ (flat_map-append entry_line (take k entries) (get_or entries k e ∷ [])
    ∙ ap (λ x. flat_map entry_line (take k entries) ++ x) (append-nil (entry_line (get_or entries k e)) ∙ ap entry_line (sym read))))

shown_split : (entries : List Entry) (k : ℕ) →
    flat_map entry_line entries ≡ flat_map entry_line (take k entries) ++ flat_map entry_line (drop k entries)
shown_split entries k = ap (flat_map entry_line) (sym (take-append-drop k entries)) ∙ flat_map-append entry_line (take k entries) (drop k entries)

-- One more line was put or waits.
pub shows_next : (old mid new : Option (List ℕ)) (entries : List Entry) (k : ℕ) (e : Entry) (waiting before line rest : List ℕ) →
    k < length entries → e ≡ get_or entries k e → Sends old (flat_map entry_line (take k entries)) waiting mid → before ≡ [] →
    line ≡ before ++ entry_line e → Sends mid (waiting ++ line) rest new → Sends old (flat_map entry_line (take (k + 1) entries)) rest new
shows_next old mid new entries k e waiting before line rest within read sends none is sent =
    let same : line ≡ entry_line e = is ∙ ap (λ x. x ++ entry_line e) none in
    subst (λ (x : List ℕ). Sends old x rest new) (sym (shown_next entries k e within read))
    (sends_more old mid new (flat_map entry_line (take k entries)) waiting (entry_line e) (waiting ++ line) sent.sent rest sends
    (ap (λ x. waiting ++ x) same) sent.whole sent.put)

-- No more line is there, and the front of what waits was put.
pub stops_at : (old mid new : Option (List ℕ)) (entries : List Entry) (k : ℕ) (waiting lent : List ℕ) →
    Sends old (flat_map entry_line (take k entries)) waiting mid → lent ≡ waiting → PutPrefix mid lent new → PutPrefix old (flat_map entry_line entries) new
stops_at old mid new entries k waiting lent sends same front =
    sends_front old mid new (flat_map entry_line (take k entries)) waiting lent (flat_map entry_line (drop k entries)) (flat_map entry_line entries) sends
    (shown_split entries k) same front

-- The front of what waits and of one more line was put.
pub stops_after : (old mid new : Option (List ℕ)) (entries : List Entry) (k : ℕ) (e : Entry) (waiting before line : List ℕ) →
    k < length entries → e ≡ get_or entries k e → Sends old (flat_map entry_line (take k entries)) waiting mid → before ≡ [] →
    line ≡ before ++ entry_line e → PutPrefix mid (waiting ++ line) new → PutPrefix old (flat_map entry_line entries) new
stops_after old mid new entries k e waiting before line within read sends none is front =
    let same : line ≡ entry_line e = is ∙ ap (λ x. x ++ entry_line e) none in
    let whole : flat_map entry_line entries ≡ (flat_map entry_line (take k entries) ++ line) ++ flat_map entry_line (drop (k + 1) entries) =
    shown_split entries (k + 1)
    ∙ ap (λ x. x ++ flat_map entry_line (drop (k + 1) entries))
    (shown_next entries k e within read ∙ ap (λ x. flat_map entry_line (take k entries) ++ x) (sym same)) in
    sends_then_front old mid new (flat_map entry_line (take k entries)) waiting line (flat_map entry_line (drop (k + 1) entries))
    (flat_map entry_line entries) sends whole front

-- What waited and a text behind it were put.
pub put_behind : (old mid new : Option (List ℕ)) (first before last line rest lent : List ℕ) → before ≡ [] → line ≡ before ++ last →
    Sends old (first ++ line) rest mid → lent ≡ rest → Put mid lent new → Put old (first ++ last) new
put_behind old mid new first before last line rest lent none is sends same put =
    let whole : first ++ line ≡ first ++ last = ap (λ x. first ++ x) (is ∙ ap (λ x. x ++ last) none) in
    subst (λ (x : List ℕ). Put old x new) whole (sends_put old mid new (first ++ line) rest lent sends same put)

pub front_behind : (old mid new : Option (List ℕ)) (first before last line rest lent : List ℕ) → before ≡ [] → line ≡ before ++ last →
    Sends old (first ++ line) rest mid → lent ≡ rest → PutPrefix mid lent new → PutPrefix old (first ++ last) new
front_behind old mid new first before last line rest lent none is sends same front =
    let whole : first ++ line ≡ first ++ last = ap (λ x. first ++ x) (is ∙ ap (λ x. x ++ last) none) in
    sends_front old mid new (first ++ line) rest lent [] (first ++ last) sends (sym whole ∙ sym (append-nil (first ++ line))) same front

-- The lines of entries were put or waited. What waited was then put, and so was what stands behind the last
-- line.
pub history_put : (old mid new : Option (List ℕ)) (entries lent : List Entry) (e : Exporter) (bytes waiting : List ℕ) → lent ≡ entries →
    bytes ≡ e.bytes → Sends old (flat_map entry_line lent) waiting mid → Put mid (waiting ++ last_lines (length lent) bytes) new →
    Put old (shared_text entries e) new
history_put old mid new entries lent e bytes waiting same shown sends put =
    subst (λ (xs : List Entry). Put old (shared_text xs e) new) same
    (subst (λ (x : List ℕ). Put old (flat_map entry_line lent ++ last_lines (length lent) x) new) shown
    (sends_then_put old mid new (flat_map entry_line lent) waiting (last_lines (length lent) bytes) sends put))

pub history_front : (old mid new : Option (List ℕ)) (entries lent : List Entry) (e : Exporter) (bytes waiting : List ℕ) → lent ≡ entries →
    bytes ≡ e.bytes → Sends old (flat_map entry_line lent) waiting mid → PutPrefix mid (waiting ++ last_lines (length lent) bytes) new →
    PutPrefix old (shared_text entries e) new
history_front old mid new entries lent e bytes waiting same shown sends front =
    let text = flat_map entry_line lent ++ last_lines (length lent) bytes in
    subst (λ (xs : List Entry). PutPrefix old (shared_text xs e) new) same
    (subst (λ (x : List ℕ). PutPrefix old (flat_map entry_line lent ++ last_lines (length lent) x) new) shown
    (sends_then_front old mid new (flat_map entry_line lent) waiting (last_lines (length lent) bytes) [] text sends (sym (append-nil text)) front))
