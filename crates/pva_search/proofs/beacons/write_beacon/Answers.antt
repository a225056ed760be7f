use Rattle.std.proofs.Common.{[], ◌∷◌}
use Rattle.std.proofs.lemmas.Result.{on_ok_weaker}
use Rattle.pva_search.specs.Fields.{byte, short, bytes, text}
use Rattle.pva_search.specs.Messages.{tcp, zero_address}
use Rattle.pva_search.proofs.Items.{one_first, one_more, some_more}
use Rattle.pva_search.proofs.beacons.write_beacon.Goals as goal

pub returns : goal.returns
returns c =
    let o = c.args.setup.now.order in
    let start = c.args.out.now.items in
    let guid = bytes c.args.setup.now.guid in
    let count = byte c.args.sequence in
    let server = bytes zero_address ∷ short c.args.setup.now.port ∷ text tcp ∷ [] in
    let e1 = one_first o start c.extend_from_slice.new.self.items guid c.in_ok-extend_from_slice.ensures.items in
    let e2 = one_more o start c.extend_from_slice.new.self.items c.put_byte.new.out.items (guid ∷ []) (byte 0) e1 (c.in_ok-put_byte.ensures o) in
    let e3 = one_more o start c.put_byte.new.out.items c.put_byte-2.new.out.items (guid ∷ byte 0 ∷ []) count e2 (c.in_ok-put_byte-2.ensures o) in
    let e4 = one_more o start c.put_byte-2.new.out.items c.write_u16.new.out.items (guid ∷ byte 0 ∷ count ∷ []) (short c.args.changes) e3 c.in_ok-write_u16.ensures.ok in
    let e5 = some_more o start c.write_u16.new.out.items c.put_server.new.out.items (guid ∷ byte 0 ∷ count ∷ short c.args.changes ∷ []) server e4 c.in_ok-put_server.ensures in
    on_ok_weaker c.put_byte-3.result
    (λ e. one_more o start c.put_server.new.out.items c.put_byte-3.new.out.items
    (guid ∷ byte 0 ∷ count ∷ short c.args.changes ∷ bytes zero_address ∷ short c.args.setup.now.port ∷ text tcp ∷ []) (byte 255) e5 e)
    (c.put_byte-3.ensures o)
