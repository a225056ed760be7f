-- What is known of a dialer over TCP: its counts. It tells neither dials nor links.
use Rattle.std.specs.Prelude.{None}
use Rattle.pva_outside.specs.Dials.{DialerView}
use Rattle.pva_net.specs.declared.tcp_dialer.TcpDialer.{TcpDialer}

abbrev pub tcp_dialer : {R L : Type 0} → TcpDialer R L → DialerView
tcp_dialer d = record {
  faults = d.faults;
  link_faults = d.link_faults;
  link_idles = d.link_idles;
  link_ends = d.link_ends;
  dials = None;
  inputs = None;
  back = None;
}

-- with counts of 0
abbrev pub new_dialer : DialerView
new_dialer = record {
  faults = 0;
  link_faults = 0;
  link_idles = 0;
  link_ends = 0;
  dials = None;
  inputs = None;
  back = None;
}
