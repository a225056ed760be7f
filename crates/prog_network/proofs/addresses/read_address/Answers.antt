use Rattle.prog_network.proofs.Reading.{no_second, no_third, no_fourth, no_port}
use Rattle.prog_network.proofs.addresses.read_address.Goals as goal

pub returns-in_default-byte_before : goal.returns-in_default-byte_before
returns-in_default-byte_before c = no_second c.args.text.now c.in-Some.text.now c.in-Some.a c.in-Some.ensures c.in_default-byte_before.ensures

pub returns-in_default-byte_before-2 : goal.returns-in_default-byte_before-2
returns-in_default-byte_before-2 c =
    no_third c.args.text.now c.in-Some.text.now c.in-Some-byte_before.text.now c.in-Some.a c.in-Some-byte_before.b c.in-Some.ensures c.in-Some-byte_before.ensures c.in_default-byte_before-2.ensures

pub returns-in_default-byte_before-3 : goal.returns-in_default-byte_before-3
returns-in_default-byte_before-3 c =
    no_fourth c.args.text.now c.in-Some.text.now c.in-Some-byte_before.text.now c.in-Some-byte_before-2.text.now c.in-Some.a c.in-Some-byte_before.b c.in-Some-byte_before-2.c c.in-Some.ensures c.in-Some-byte_before.ensures
    c.in-Some-byte_before-2.ensures c.in_default-byte_before-3.ensures

pub returns-in_default-count_within : goal.returns-in_default-count_within
returns-in_default-count_within c =
    no_port c.args.text.now c.in-Some.text.now c.in-Some-byte_before.text.now c.in-Some-byte_before-2.text.now c.in-Some-byte_before-3.text.now c.in-Some.a c.in-Some-byte_before.b c.in-Some-byte_before-2.c c.in-Some-byte_before-3.d
    c.in-Some.ensures c.in-Some-byte_before.ensures c.in-Some-byte_before-2.ensures c.in-Some-byte_before-3.ensures c.in_default-count_within.ensures
