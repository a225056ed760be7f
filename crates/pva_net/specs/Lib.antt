pub mod Addresses
pub mod Refusals
pub mod TcpDialer
pub mod TcpLink
pub mod TcpListener
pub mod UdpDatagrams
