-- The fields one after another, those of both match messages first.
use Prim.Native.Nat.{ℕ}
use borrow.Author.Rules.{rules}
use mathlib.Core.List.{List, []}
use mathlib.Core.Path.{sym, ap, ◌∙◌}
use Rattle.messages.proofs.WriteLaws.{store, store_encode}
use Rattle.messages.specs.Layout.{Values, size}
use Rattle.messages.specs.Table.{slac_match_cnf, match_fields, key_fields, payload}
use Rattle.messages.proofs.writer.put_slac_match_cnf.Goals as goal

pub returns : goal.returns
returns c =
    let a = c.args in
    let key : Values key_fields = (a.nid.0, (a.nmk.0, (a.nmk.1, tt))) in
    λ e. rw (c.put_number-3.ensures, c.put_number-2.ensures, c.put_number.ensures, c.put_low_number.ensures, c.put_match.ensures e)
    (ap (λ (l : List ℕ). store l (size (match_fields e 0 0 0 [])) key_fields key) (sym (store_encode (match_fields e 0x5600 a.car a.station []) (a.ids.first, (a.ids.second, (a.run, tt))) 0 a.out.now (search rules, (search rules, tt))))
    ∙ store_encode (payload e slac_match_cnf 0 a.car a.station) (a.ids.first, (a.ids.second, (a.run, key))) 0 a.out.now (search rules, (search rules, tt)))
