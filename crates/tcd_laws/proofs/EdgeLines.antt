-- The lines of a graph are the lines of its text.
use Rattle.std.proofs.Common.{◌≡◌, ◌<◌, ◌+◌, ◌/◌, ◌%◌, ◌^◌, ◌==◌, ◌&&◌, not, ℕ, Bool, true, false, cond, List, [], ◌∷◌, ◌++◌, map, nat_lt, refl, sym, ap, subst, ◌∙◌, arith, append_assoc}
use Rattle.std.specs.Prelude.{All, codes}
use Rattle.std.specs.Fmt.{decimal}
use Rattle.std.specs.List.{flat_map, list_all, onto_first}
use Rattle.std.specs.Str.Parse.{AllDigits}
use Rattle.std.proofs.lemmas.Bool.{ne_eqb, and_from}
use Rattle.std.proofs.lemmas.Fmt.{decimal_is_IsNumeral}
use Rattle.std.proofs.lemmas.Str.Parse.{digit_from_value}
use Rattle.std.proofs.lemmas.List.Elements.{All-head, All-tail}
use Rattle.std.proofs.lemmas.List.Folds.{list_all-append}
use Rattle.tcd_text.specs.Lines.{text_lines}
use Rattle.elf_image.specs.Images.{ImageData}
use Rattle.tcd_plan.specs.PlanData.{PlanData}
use Rattle.depth_cert.specs.declared.keys.Key.{Key}
use Rattle.depth_cert.specs.declared.points.Point.{Point}
use Rattle.depth_cert.specs.Nodes.{NodeData}
use Rattle.depth_cert.specs.Certs.{CertData, IsCert}
use Rattle.cfg_recover.specs.StepEdges.{EdgeWay, to, call, irq, sys, aln, ret, rfe}
use Rattle.depth_check.proofs.Sound.{accepted_is_safe}
use Rattle.depth_check.proofs.Held.{edges_are_owed}
use Rattle.tcd_text.specs.HexNumbers.{hex_digit, hex_byte, hex_word}
use Rattle.tcd_report.specs.Texts.{key_kind_text, frame_name}
use Rattle.tcd_report.specs.Graphs.{Arrow, goes, back, node_line_prefix, point_line_prefix, line_end_to, way_end, arrow_end, graph_line, ArePointLines, AreLineParts, AreJoinedLines, AreNodeLines, AreGraphLines}
use Rattle.tcd_report.specs.Graphs.EdgeLaws.{LinesHaveAllEdges}
use Rattle.tcd_report.proofs.GraphLemmas.EdgeProofs.{edges_stand}
use Rattle.tcd_laws.specs.EdgesOnLines.{printed_graph_lines, PrintedGraphsHaveAllEdges}

-- ---- texts without a line feed
abbrev passes : ℕ → Bool
passes c = not (c == 10)

record NoFeed (bs : List ℕ) : Type 0 where
  none : list_all passes bs ≡ true

joined : (xs ys : List ℕ) → NoFeed xs → NoFeed ys → NoFeed (xs ++ ys)
joined xs ys h k = record { none = list_all-append passes xs ys ∙ and_from (list_all passes xs) (list_all passes ys) h.none k.none }

other : (c : ℕ) → 10 < c → passes c ≡ true
other c h = ap not (ne_eqb c 10 (λ e. omega arith))

digit_passes : (n : ℕ) → passes (hex_digit n) ≡ true
unfolding hex_digit
digit_passes n = by_test (nat_lt n 10)
  where
    by_test : (b : Bool) → passes (cond b (48 + n) (55 + n)) ≡ true
    by_test true = other (48 + n) (omega arith)
    by_test false = other (55 + n) (omega arith)

byte_passes : (b : ℕ) → NoFeed (hex_byte b)
unfolding hex_byte
byte_passes b = record { none = and_from (passes (hex_digit (b / 16))) (passes (hex_digit (b % 16)) && true) (digit_passes (b / 16)) (and_from (passes (hex_digit (b % 16))) true (digit_passes (b % 16)) refl) }

word_passes : (x : ℕ) → NoFeed (hex_word x)
unfolding hex_word
word_passes x = joined _ _ (byte_passes _) (joined _ _ (byte_passes _) (joined _ _ (byte_passes _) (byte_passes _)))

digits_pass : (ds : List ℕ) → AllDigits 10 ds → NoFeed ds
digits_pass [] h = record { none = refl }
digits_pass (c ∷ cs) h = let r = digit_from_value c h.0 in record { none = and_from (passes c) (list_all passes cs) (other c (omega (arith, r))) (digits_pass cs h.1).none }

decimal_passes : (n : ℕ) → n < 2 ^ 8 → NoFeed (decimal n)
decimal_passes n h = digits_pass (decimal n) (decimal_is_IsNumeral n (omega arith)).0.1

kind_passes : (k : ℕ) → NoFeed (key_kind_text k)
unfolding key_kind_text
kind_passes k = by_tests (k == 0) (k == 1) (k == 2) (k == 3)
  where
    by_tests : (a b c d : Bool) → NoFeed (cond a (codes "start ") (cond b (codes "call ") (cond c (codes "irq ") (cond d (codes "sys ") (codes "aln ")))))
    by_tests true b c d = record { none = refl }
    by_tests false true c d = record { none = refl }
    by_tests false false true d = record { none = refl }
    by_tests false false false true = record { none = refl }
    by_tests false false false false = record { none = refl }

flag_passes : (b : Bool) → NoFeed (cond b 49 48 ∷ [])
flag_passes true = record { none = refl }
flag_passes false = record { none = refl }

key_passes : (key : Key) → key.prio < 2 ^ 8 → NoFeed (frame_name key)
unfolding frame_name
key_passes key small =
    joined _ _ (kind_passes key.kind)
    (joined _ _ (word_passes key.entry)
    (joined (codes " prio ") (decimal key.prio ++ (codes " is " ++ (cond key.is 49 48 ∷ []))) (record { none = refl })
    (joined (decimal key.prio) (codes " is " ++ (cond key.is 49 48 ∷ [])) (decimal_passes key.prio small) (joined (codes " is ") (cond key.is 49 48 ∷ []) (record { none = refl }) (flag_passes key.is)))))

front_passes : (key : Key) (p : ℕ) → key.prio < 2 ^ 8 → NoFeed (point_line_prefix key p)
front_passes key p small =
    joined (node_line_prefix key) (hex_word p ++ 32 ∷ []) (joined (frame_name key) (codes ": ") (key_passes key small) (record { none = refl }))
    (joined (hex_word p) (32 ∷ []) (word_passes p) (record { none = refl }))

-- ---- lines
-- a text whose only line feed ends it
record IsLine (l : List ℕ) : Type 0 where
  body : List ℕ
  are : l ≡ body ++ 10 ∷ []
  plain : NoFeed body

ended : (word : List ℕ) (q : ℕ) → NoFeed word → IsLine (line_end_to word q)
ended word q h = record { body = word ++ hex_word q; are = sym (append_assoc word (hex_word q) (10 ∷ [])); plain = joined word (hex_word q) h (word_passes q) }

way_line : (w : EdgeWay) → IsLine (way_end w)
way_line (to q) = ended (codes "to ") q (record { none = refl })
way_line (call q) = ended (codes "call ") q (record { none = refl })
way_line (irq q) = ended (codes "irq ") q (record { none = refl })
way_line (sys q) = ended (codes "sys ") q (record { none = refl })
way_line (aln q) = ended (codes "aln ") q (record { none = refl })
way_line ret = record { body = codes "ret"; are = refl; plain = record { none = refl } }
way_line rfe = record { body = codes "rfe"; are = refl; plain = record { none = refl } }

arrow_line : (a : Arrow) → IsLine (arrow_end a)
arrow_line (goes w) = way_line w
arrow_line (back q) = ended (codes "back ") q (record { none = refl })

text_line : (key : Key) (p : ℕ) (a : Arrow) → key.prio < 2 ^ 8 → IsLine (graph_line key p a)
text_line key p a small =
    let e = arrow_line a in
    record {
      body = point_line_prefix key p ++ e.body;
      are = ap (λ (bs : List ℕ). point_line_prefix key p ++ bs) e.are ∙ sym (append_assoc (point_line_prefix key p) e.body (10 ∷ []));
      plain = joined (point_line_prefix key p) e.body (front_passes key p small) e.plain;
    }

-- each of them
AreLines : List (List ℕ) → Type 0
AreLines [] = Unit {0}
AreLines (l ∷ ls) = IsLine l × AreLines ls

lines_both : (ls ms : List (List ℕ)) → AreLines ls → AreLines ms → AreLines (ls ++ ms)
unfolding AreLines
lines_both [] ms h k = k
lines_both (l ∷ ls) ms h k = (h.0, lines_both ls ms h.1 k)

texts_lines : (key : Key) (p : ℕ) (arrows : List Arrow) → key.prio < 2 ^ 8 → AreLines (map (graph_line key p) arrows)
unfolding AreLines
texts_lines key p [] small = tt
texts_lines key p (a ∷ arrows) small = (text_line key p a small, texts_lines key p arrows small)

parts_lines : {A : Type 0} (Has : A → List (List ℕ) → Type 0) (Q : A → Type 0) (xs : List A) (parts : List (List (List ℕ))) → ((x : A) (p : List (List ℕ)) → Q x → Has x p → AreLines p) → All Q xs → AreLineParts Has xs parts → AreLines (flat_map (λ p. p) parts)
unfolding AreLines
parts_lines Has Q [] [] good all h = tt
parts_lines Has Q [] (p ∷ ps) good all h = absurd h
parts_lines Has Q (x ∷ xs) [] good all h = absurd h
parts_lines Has Q (x ∷ xs) (p ∷ ps) good all h = lines_both p (flat_map (λ p. p) ps) (good x p (All-head Q x xs all) h.0) (parts_lines Has Q xs ps good (All-tail Q x xs all) h.1)

joined_lines : {A : Type 0} (Has : A → List (List ℕ) → Type 0) (Q : A → Type 0) (xs : List A) (lines : List (List ℕ)) → ((x : A) (p : List (List ℕ)) → Q x → Has x p → AreLines p) → All Q xs → AreJoinedLines Has xs lines → AreLines lines
joined_lines Has Q xs lines good all h = subst AreLines (sym h.are) (parts_lines Has Q xs h.parts good all h.each)

module _ (image : ImageData) (plan : PlanData) (cert : CertData) where
  abbrev HasSmallPrio : NodeData → Type 0
  HasSmallPrio n = (n.key).prio < 2 ^ 8

  point_lines : (key : Key) (point : Point) (lines : List (List ℕ)) → key.prio < 2 ^ 8 → ArePointLines image plan cert key point lines → AreLines lines
  point_lines key point lines small h = subst AreLines (sym h.are) (texts_lines key point.addr _ small)

  node_lines : (n : NodeData) (lines : List (List ℕ)) → HasSmallPrio n → AreNodeLines image plan cert n lines → AreLines lines
  node_lines n lines small h =
      joined_lines (ArePointLines image plan cert n.key) (λ (p : Point). Unit {0}) n.points lines (λ p ls q k. point_lines n.key p ls small k) (λ k d less. tt) h

  graph_lines : (lines : List (List ℕ)) → IsCert cert → AreGraphLines image plan cert lines → AreLines lines
  graph_lines lines is_cert h =
      joined_lines (AreNodeLines image plan cert) HasSmallPrio cert.nodes lines node_lines (λ k d less. ((is_cert.nodes k d less).key).prio) h

-- ---- their text
lines_front : (body rest : List ℕ) → NoFeed body → text_lines (body ++ 10 ∷ rest) ≡ body ∷ text_lines rest
unfolding text_lines
lines_front [] rest h = refl
lines_front (c ∷ body) rest h = by_feed (c == 10) (λ k. lines_front body rest k) h.none
  where
    by_feed : (b : Bool) → (NoFeed body → text_lines (body ++ 10 ∷ rest) ≡ body ∷ text_lines rest) → (not b && list_all passes body) ≡ true → cond b ([] ∷ text_lines (body ++ 10 ∷ rest)) (onto_first c (text_lines (body ++ 10 ∷ rest))) ≡ (c ∷ body) ∷ text_lines rest
    by_feed true behind k = cc
    by_feed false behind k = ap (onto_first c) (behind (record { none = k }))

printed_front : (l rest : List ℕ) → IsLine l → printed_graph_lines (l ++ rest) ≡ l ∷ printed_graph_lines rest
printed_front l rest h =
    let b : List ℕ = h.body in
    let moved : l ++ rest ≡ b ++ 10 ∷ rest = ap (λ (bs : List ℕ). bs ++ rest) h.are ∙ append_assoc b (10 ∷ []) rest in
    ap printed_graph_lines moved ∙ ap (map (λ (x : List ℕ). x ++ 10 ∷ [])) (lines_front b rest h.plain) ∙ ap (λ (x : List ℕ). x ∷ printed_graph_lines rest) (sym h.are)

printed_all : (lines : List (List ℕ)) → AreLines lines → printed_graph_lines (flat_map (λ l. l) lines) ≡ lines
unfolding AreLines text_lines
printed_all [] h = refl
printed_all (l ∷ ls) h = printed_front l (flat_map (λ l. l) ls) h.0 ∙ ap (λ (xs : List (List ℕ)). l ∷ xs) (printed_all ls h.1)

-- ---- the law
pub accepted_edges_stand : PrintedGraphsHaveAllEdges
accepted_edges_stand image plan cert text entry ok is_cert accepted g =
    let same : printed_graph_lines text ≡ g.lines = ap printed_graph_lines g.text_is ∙ printed_all g.lines (graph_lines image plan cert g.lines is_cert g.are) in
    subst (LinesHaveAllEdges image plan cert) (sym same)
    (edges_stand image plan cert g.lines ok is_cert entry (accepted_is_safe image plan cert ok is_cert accepted) (edges_are_owed image plan cert ok is_cert accepted) g.are)
